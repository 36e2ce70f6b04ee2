pub mod Watched
-- the functions' own steps
pub mod DrawnBlocks
pub mod Hands
