pub mod Even
pub mod Growing
pub mod Few
pub mod Making
pub mod Limiting
pub mod Adding
