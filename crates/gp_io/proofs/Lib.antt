mod Taken
mod Calls
mod Appended
