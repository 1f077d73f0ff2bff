mod Made
mod Filtered
mod Sorting
