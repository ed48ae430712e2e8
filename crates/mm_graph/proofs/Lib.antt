-- lemmas on edges and on walks along them
pub mod Lemmas
