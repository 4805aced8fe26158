-- the file of a panel of gauges
pub mod Panel
