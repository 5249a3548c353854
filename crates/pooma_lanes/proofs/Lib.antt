mod Bits
mod Chosen
mod Factors
mod Marks
mod Places
mod RowTotals
mod Signs
