pub mod Answers
pub mod Bests
pub mod Books
pub mod Lending
pub mod Planners
pub mod Trials
