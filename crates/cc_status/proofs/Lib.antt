mod LiveIds
mod ShownTexts
mod TextsApart
mod EventLines
mod Fields
mod Heads
mod Lawful
mod Writes
