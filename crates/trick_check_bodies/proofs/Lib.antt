mod Rows
mod Wholes
mod Having
mod Leading
mod Tabled
