mod NameOrders
mod Placing
mod WorkedDetails
mod WorkedLines
