mod Marking
