mod Ends
mod Readings
mod Saturated
