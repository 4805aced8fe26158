-- the next token decides each step of the grammar of files
pub mod Files
-- the trees of lists are the lists of trees
pub mod Lists
-- what is known of numbers, times and phases of a text
pub mod Numbers
-- each part of a tree passes the tests that hold of the text
pub mod Parts
-- loops in bodies are short
pub mod Loops
-- what is known of the tree of a text
pub mod Holds
