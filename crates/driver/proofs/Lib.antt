mod Driven
