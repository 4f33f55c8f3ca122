pub mod FilesRead
pub mod Printing
