-- What bytes spell, a design and a plan, and what the words of a plain command line are.
pub mod Designs
pub mod Plans
pub mod Lines
pub mod Laws
