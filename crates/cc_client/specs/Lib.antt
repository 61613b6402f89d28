pub mod Latencies
