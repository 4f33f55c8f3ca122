pub mod Lines
pub mod Timetable
pub mod Parts
