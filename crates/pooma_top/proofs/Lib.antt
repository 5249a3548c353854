mod Numerals
mod OneOutput
mod Promises
mod Statuses
mod Words
mod Written
