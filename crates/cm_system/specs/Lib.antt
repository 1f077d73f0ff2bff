pub mod Trace
pub mod ReadAll
pub mod InputFiles
pub mod Written
pub mod OutputFiles
pub mod ProgramFault
pub mod Report
pub mod Streams
