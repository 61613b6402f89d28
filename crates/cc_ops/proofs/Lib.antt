mod Rooms
mod ToldAnswers
mod AnewLaws
