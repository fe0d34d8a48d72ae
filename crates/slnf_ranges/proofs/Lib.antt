mod Histories
mod Laws
