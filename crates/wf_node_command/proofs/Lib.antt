mod Learned
mod Served
