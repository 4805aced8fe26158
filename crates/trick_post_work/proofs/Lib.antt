-- what is published is what the rules publish
pub mod Published
