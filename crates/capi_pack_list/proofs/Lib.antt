mod PackLists
mod ListWords
