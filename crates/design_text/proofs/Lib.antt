mod Blanks
mod Keys
mod Lookups
mod ReadEntries
mod Parts
mod Documents
mod Splitting
mod Nowhere
mod Distinct
mod Sections
mod Sheets
mod Admitting
mod Spelling
mod Returning
mod Rules
mod Ascii
mod Values
mod ReadTexts
pub mod ReadingBack
pub mod Lengths
