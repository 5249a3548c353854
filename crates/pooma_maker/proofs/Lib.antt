mod Drawn
mod Worked
