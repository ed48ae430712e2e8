-- each text has replies, and how a script ends
pub mod Text
