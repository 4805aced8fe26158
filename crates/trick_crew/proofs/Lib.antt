-- Where no thread works beside the tics nothing can be handed over, and no thread has a clerk.
pub mod Needs
