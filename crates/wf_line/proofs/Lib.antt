mod Named
mod PlainWords
mod ProcessNamed
