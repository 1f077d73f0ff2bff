pub mod Bit
pub mod Ends
pub mod Field
pub mod Span
pub mod Text
pub mod Wire
