pub mod Alike
pub mod TellsApart
pub mod SameReading
pub mod SameRecords
pub mod TwoSites
pub mod Examples
