mod Outcomes
mod Taking
mod Giving
mod Building
