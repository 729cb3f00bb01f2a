pub mod Laws
