mod TicketLaws
mod CountingLaws
pub mod Laws
