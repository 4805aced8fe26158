mod Definitions
mod Known
mod Lists
mod Noted
mod Trees
mod Weights
mod Worked
mod LayoutLists
