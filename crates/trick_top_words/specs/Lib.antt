-- The lines of a command with places and options: items in any order.
pub mod CommandLine
-- The six commands, with their places and options.
pub mod Commands
-- Which words are a line of a command, and what it gives.
pub mod Reads
-- Which words ask for which command.
pub mod Command
-- What `clap` is told of the commands.
pub mod Rules
-- The words that are refused before `clap` reads them.
pub mod Plain
-- What a command has of the values of its line.
pub mod Fields
