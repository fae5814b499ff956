mod Upward
