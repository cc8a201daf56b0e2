pub mod TooLarge
