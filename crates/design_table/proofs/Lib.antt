pub mod Documents
pub mod EntryLists
pub mod KeyLists
pub mod Walks
