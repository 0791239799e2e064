-- What the contracts of bfs_nodes_agree cite: replicas by the calls of their orders, by their VIEW-CHANGEs and NEW-VIEWs too, and as whole nodes.
pub mod Orders
pub mod Views
pub mod Nodes
