pub mod Solidity
