mod Exchanges
mod Told
