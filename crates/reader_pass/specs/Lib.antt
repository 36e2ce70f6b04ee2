pub mod NotedWords
pub mod StateBrackets
