pub mod Framing
pub mod Reading
pub mod Calling
pub mod BooksShown
