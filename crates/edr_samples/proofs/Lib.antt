mod Digits
mod Lists
mod Turns
mod Looks
mod LexemeLemmas
mod PlaceLemmas
mod Steps
