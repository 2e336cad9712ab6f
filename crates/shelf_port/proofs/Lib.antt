pub mod Lists
pub mod Told
pub mod Reading
pub mod Entries
pub mod Results
