pub mod Cuts
pub mod Ends
pub mod Fewest
pub mod Prefixes
pub mod Puts
pub mod Telling
pub mod Told
