pub mod Forms
pub mod Line
pub mod Reply
pub mod Script
pub mod Text
-- private: how forms are kept, and a law that `Answerer` asks for; no public clause cites these
pub mod private
