pub mod Courses
pub mod Lent
pub mod Rule
