mod Alone
mod InTurn
