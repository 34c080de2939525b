mod Policies
mod Rules
