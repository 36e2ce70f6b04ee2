pub mod BlockTickets
pub mod DrawnTickets
pub mod HandLemmas
pub mod Numbered
pub mod ReadBefore
pub mod TakenLemmas
