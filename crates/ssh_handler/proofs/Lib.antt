mod Records
mod OwnCalls
