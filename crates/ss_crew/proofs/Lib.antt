pub mod VaultRows
