pub mod PackLists
