pub mod Stations
pub mod Counting
pub mod Walk
pub mod RouteLaws
pub mod BadWalk
pub mod AsEdges
pub mod Beside
pub mod Exclusion
pub mod Visiting
pub mod Stops
pub mod Ahead
pub mod Authority
pub mod UnderWay
pub mod Deciding
pub mod Standing
pub mod Sums
pub mod Given
pub mod Running
pub mod Lengths
pub mod Admits
pub mod KeptFree
pub mod Keeping
pub mod Moving
pub mod Points
pub mod Progress
pub mod Lively
pub mod Verdicts
pub mod Arrivals
pub mod Small
mod RoutesRows
pub mod MotionLaws
mod MeetsRows
mod AdmittedRows
mod StationRows
mod RunRows
mod MotionRows
