pub mod Check
pub mod Like
pub mod LikeFront
pub mod LikePlace
pub mod Truth
pub mod View
