mod Capped
mod Blocks
