mod Folding
mod Reading
